mod StepsTold
pub mod Known
mod Bad
