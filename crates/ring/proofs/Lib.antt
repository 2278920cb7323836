-- Laws of this crate: the partition that the linked nodes make.
pub mod Union
