pub mod Cuts
pub mod Digits
pub mod GapWords
pub mod LineCuts
pub mod LinesTexts
