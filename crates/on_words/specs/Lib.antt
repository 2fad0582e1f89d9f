pub mod OnWords
