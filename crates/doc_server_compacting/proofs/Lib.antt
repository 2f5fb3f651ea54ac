mod EditSizes
mod Written
