-- Laws of the codice fiscale: what an answer means (Meaning), how an integer text is read (Trim), and examples (Cases).
pub mod Laws
pub mod Trim
pub mod Walk
pub mod Meaning
pub mod Cases
