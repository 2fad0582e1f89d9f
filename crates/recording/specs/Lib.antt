pub mod Recording
pub mod Test
pub mod Laws
