-- Worked runs.
pub mod Examples
-- The first half of the claim; both halves for one node.
pub mod Safety
pub mod Lone
-- The second half: no state is refused, nothing but early items is refused, and no board sticks.
pub mod Agreeing
pub mod Sound
pub mod Clear
pub mod Room
pub mod Early
pub mod Calm
pub mod Lively
-- The claim.
pub mod Whole
-- What a maker may rely on besides.
pub mod Facts
pub mod LinkBytes
