-- Laws on tests, numbers and lists that the toolchain's libraries do not have.
-- Tests as equations, `a ≡ true`
pub mod Bools
-- Tests as facts, `T a`
pub mod Tests
pub mod Numbers
pub mod Lists
