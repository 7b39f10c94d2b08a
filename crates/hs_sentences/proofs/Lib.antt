pub mod FirstViolated
pub mod Local
pub mod Looking
pub mod Said
