-- The queue. A reader has to believe Layout and Calls. The layer above cites the page Interface and its laws, InterfaceLaws, alone; Linking is what
-- inner functions promise one another. Layout keeps its facts in a folder of its own, since only modules below it can open what it closes.
pub mod Interface
pub mod InterfaceLaws
pub mod Layout
pub mod Calls
pub mod Linking
