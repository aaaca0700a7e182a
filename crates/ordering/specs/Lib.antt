-- What a reader has to believe of this crate: adornment, the orders of so many places, a good order and a good clause, the calls that a body makes
-- in an order, and how the code holds an order and what is bound.
pub mod Adorn
pub mod Orders
pub mod Turns
pub mod Good
pub mod Asks
pub mod Held
