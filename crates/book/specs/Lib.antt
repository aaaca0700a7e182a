-- What a reader has to believe of this crate: the numbers, what a book says, how its bytes are judged from the left, what an operation on books
-- comes to for any bytes, the bytes of a book and the books that have bytes, how the code holds a book and a table, and sets of clauses.
pub mod Limits
pub mod Book
pub mod Format
pub mod Answer
pub mod Encode
pub mod Held
pub mod Table
pub mod Sets
pub mod Refusal
