-- Laws that several proofs cite: each says what a definition comes to where the code's tests led.
mod BeatLineLaws
mod OutLaws
mod TestLaws
mod TallyBeatLaws
mod StepLaws
mod WorkLaws
