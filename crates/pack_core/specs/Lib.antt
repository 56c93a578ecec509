-- Packing: what items add to a list, its totals, the setting of its glue, the packed boxes, and the places of their items.
pub mod Items
pub mod Totals
pub mod Glue
pub mod Orders
pub mod ListTotals
pub mod Tails
pub mod Boxes
pub mod Places
pub mod Cursors
pub mod Laws
pub mod Private
