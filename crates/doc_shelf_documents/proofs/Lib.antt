mod DocumentSteps
