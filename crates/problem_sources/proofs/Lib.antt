mod FirstsLaws
mod PlaceLaws
mod SetLaws
mod Texts
