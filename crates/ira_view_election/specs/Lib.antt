pub mod Coming
pub mod Contenders
pub mod Election
pub mod ElectionAt
pub mod Laws
