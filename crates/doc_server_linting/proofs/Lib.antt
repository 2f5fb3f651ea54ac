mod LintSteps
