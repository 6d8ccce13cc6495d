pub mod KernelTexts
pub mod Statuses
pub mod Failures
pub mod Kernels
pub mod Further
pub mod Commands
pub mod Drawing
