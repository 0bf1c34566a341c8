pub mod Buffer
pub mod Program
