-- Laws that the proofs of the functions cite: AloneLaws on a line by itself, TokenLaws on the tokens of a body, TokenLineLaws on the lines of a text, DraftLaws on what is kept of them, EachLineLaws on one line
-- after the other, NextNumberLaws on curves and lines by rising number, LoadLaws on a whole text.
mod AloneLaws
mod TokenLaws
mod TokenLineLaws
mod DraftLaws
mod EachLineLaws
mod NextNumberLaws
mod LoadLaws
