mod RenameSteps
