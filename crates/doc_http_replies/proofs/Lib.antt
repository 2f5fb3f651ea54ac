mod Examples
mod HeadExamples
mod HeadLaws
mod EditExamples
mod EditLaws
mod ReplyLemmas
mod StatusLemmas
