pub mod Lexical
