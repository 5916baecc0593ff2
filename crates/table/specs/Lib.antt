-- Tables of records in code, and what the rules see of them. A reader has to believe Table, Range and Changes, and for Annex 12.19 and 12.20 Sums and
-- NoDivision. The others are what inner functions promise one another, and Facts is proved.
pub mod Table
pub mod Range
pub mod Changes
pub mod Sums
pub mod NoDivision
pub mod Needs
pub mod Places
pub mod Lengths
pub mod Ids
pub mod RangeTests
pub mod Start
pub mod Facts
