-- What several proofs of this crate cite.
mod Blocks
mod Edge
