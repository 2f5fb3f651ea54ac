mod StoreExamples
pub mod AliasSteps
pub mod CountSteps
pub mod NamesLaw
pub mod NumberSteps
pub mod PageCounts
pub mod PageSteps
pub mod RowSteps
pub mod SeenLaw
pub mod SetSteps
pub mod SightSteps
pub mod StampLaw
pub mod StateSteps
pub mod StoreOnLists
pub mod StoreSteps
pub mod SumSteps
