pub mod Laws
pub mod Refuses
pub mod ReadBack
pub mod Orders
