-- Lemmas only: why one of two rules keeps its law. No promise rests on believing a file here.
pub mod Rules
