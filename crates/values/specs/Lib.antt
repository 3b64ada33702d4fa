-- What the promises mean: values, curves, time, FIFOs and the two's complement, document 01's codes, a list written into an array, and the laws that follow from them.
pub mod Codes
pub mod CodeLaws
pub mod Size
pub mod Value
pub mod Choice
pub mod Numbers
pub mod SizeLaws
pub mod ValueLaws
pub mod MarkerLaws
pub mod Cut
pub mod CutLaws
pub mod Unique
mod ValueTable
pub mod Curve
pub mod CurveLaws
mod CurveTable
pub mod Time
pub mod TimeLaws
pub mod Fifo
pub mod FifoLaws
pub mod Complement
pub mod ComplementLaws
pub mod PutAt
pub mod PutLaws
pub mod SignedLaws
pub mod ListLaws
