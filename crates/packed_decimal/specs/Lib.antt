pub mod Digits
pub mod PackedReading
pub mod ReadingRefusals
pub mod ReadingAnswers
pub mod Largest
pub mod ReadingPromises
pub mod MeasuredWord
