-- Lemmas only: why the rules of a search are sound. No promise rests on believing a file here.
pub mod Searching
