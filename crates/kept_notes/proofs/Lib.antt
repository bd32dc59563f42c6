mod NoteTexts
mod OnTheWay
mod RefusedThese
