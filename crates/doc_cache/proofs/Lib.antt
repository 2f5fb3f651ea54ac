pub mod CacheLaws
pub mod CacheSteps
mod Examples
