-- The trees that contracts speak of, their stored form, their nodes, and the classes of nodes.
pub mod Items
pub mod Nodes
pub mod Loads
pub mod Classes
pub mod Parameters
pub mod Private
