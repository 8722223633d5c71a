pub mod Budget
pub mod Laws
