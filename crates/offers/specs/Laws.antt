-- Lemmas only: why the five kinds keep the laws of `Layouts.LayoutLaws`. No promise rests on believing a file here.
pub mod HighFirst
pub mod Layouts
pub mod Kinds
