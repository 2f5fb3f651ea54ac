mod FieldSteps
