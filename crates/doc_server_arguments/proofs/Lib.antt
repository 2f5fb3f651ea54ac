mod ArgumentsExamples
mod Digits
mod Fronts
mod GivenLaws
mod OptionLaws
mod Ports
mod Reading
mod TakenLaws
