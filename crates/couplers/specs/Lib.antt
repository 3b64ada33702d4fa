-- In the order in which they are read: Conversion a number of volts in thousandths, Channel what a channel gives and keeps. Files ending in Laws have what follows from them.
pub mod Conversion
pub mod ConversionLaws
pub mod Channel
pub mod ChannelLaws
