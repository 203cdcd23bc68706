pub mod UnitList
