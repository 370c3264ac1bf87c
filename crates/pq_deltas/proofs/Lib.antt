pub mod DeltaSteps
