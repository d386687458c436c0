-- What follows from the definitions, in the order of reading: the laws that the others go by; one Piston, for the code;
-- then the theorems: run counts, the round trip, the story that the blocks tell, its prefix form, their shape; Lake and River by name; and what is computed.
-- (Worked is called so that it comes behind every law by name: rt tells an edit's errors in the order of dependence, then of names, and a law says more.)
pub mod Instances
pub mod Xors
pub mod Plans
pub mod Rides
pub mod Small
pub mod Front
pub mod Blocks
pub mod Offsets
pub mod KeyPack
pub mod OnePiston
pub mod Runs
pub mod RoundTrip
pub mod Reading
pub mod Story
pub mod Prefix
pub mod Shape
pub mod Keyak
pub mod Worked
