-- The layout of a packet. A reader has to believe Layout. Parts is what inner functions promise one another; in Facts, that values and bytes
-- determine one another, and what storing bytes one by one leaves.
pub mod Layout
pub mod Parts
pub mod Facts
