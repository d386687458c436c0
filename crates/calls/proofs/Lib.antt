-- The promises over the calls, proved over any instance of one Piston, any f and any kind of record that serves; the partner's, over any f that gives 16 bytes or more. In the order of the demands: Refusals and Closed,
-- Right and Partner, Story. Allowed, OneCall, Struck and Chains have the laws they rest on; Meets is what the code of an instance cites.
pub mod Allowed
pub mod Chains
pub mod Closed
pub mod Meets
pub mod OneCall
pub mod Partner
pub mod Refusals
pub mod Right
pub mod Story
pub mod Struck
