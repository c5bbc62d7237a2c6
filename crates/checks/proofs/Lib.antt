pub mod Cliques13
pub mod Near
pub mod Numbers
