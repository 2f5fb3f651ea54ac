mod FewSteps
mod HoldSteps
mod NameSteps
