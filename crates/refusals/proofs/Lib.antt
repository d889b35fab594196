-- The laws of refusals and of lent buffers that callers cite.
pub mod RefusalLaws
pub mod LentLaws
