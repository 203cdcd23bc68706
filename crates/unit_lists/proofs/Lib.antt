-- What the proofs of this crate name of the kit, of the crates below and of its own definitions, each with its home.
pub mod Prelude
-- The laws of this crate that the proofs of its functions name, each with its home.
pub mod Face
-- The table and the counts while units are worked: what one unit more changes, and what stands there in the end
pub mod WorkedUnits
-- Rising lists: lists within one another, and what a search has gathered where its members are known
pub mod RisingLists
-- What the search looks for in the table is what document 01 lists: form A of the splitting theory, told from the stored lists
pub mod Joined
-- The one more unit, with no rules and an edge to every unit: what the search is told of it, and that it can be listed
pub mod LastUnit
-- The units in their order: what is worked is in the table, and what is left of the work stays the same
pub mod WorkOrder
