-- `Laws`, `Held` and `Pinned` have what other crates may cite of lines; `Ends` serves the proofs of `place_of` and `take_line`.
pub mod Laws
pub mod Held
pub mod Pinned
mod Ends
