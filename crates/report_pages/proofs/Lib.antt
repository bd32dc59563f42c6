mod PieceTexts
mod Plain
mod Whole
