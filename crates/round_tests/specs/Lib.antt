-- Tests of a round, which its functions promise the checker: a reader has to believe nothing here. Tests says what they are, and Facts is proved.
pub mod Tests
pub mod Facts
