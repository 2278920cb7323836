-- This crate has working statements alone: what its functions promise, no part of an operation's promise.
pub mod work
