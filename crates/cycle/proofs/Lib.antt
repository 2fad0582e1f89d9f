-- The claim about runs apart from bytes and states. Sums and lists; what is asked of the tree.
pub mod Sums
pub mod Lists
pub mod Tree
-- Why a node that leaves, leaves a quiet phase: claims for a total, and what makes and keeps them.
pub mod FinalClaim
pub mod Growth
pub mod OwnSums
-- One phase: its events, over the tree of partners; what its frames and nodes hold, and that every event keeps it.
pub mod Exact
pub mod OnePhase
pub mod Partners
pub mod Newest
pub mod Latest
pub mod AtRest
pub mod NodeOk
pub mod Messages
pub mod PhaseInvariant
pub mod StillKept
pub mod TallyKept
pub mod PhaseKept
-- One phase at rest has a node that goes on.
pub mod NoStick
-- All phases: safety, no board sticks, the window of phases, and each kind of event.
pub mod Opening
pub mod Ledger
pub mod Reached
pub mod Dating
pub mod Window
pub mod Events
