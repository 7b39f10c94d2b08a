pub mod AllCopied
pub mod Keys
pub mod Looking
pub mod Numbers
