-- Laws of forms: what each answer means (Meaning), a form as one walk (Follows), texts of digits (OfDigits), the named forms (Named).
pub mod Laws
pub mod First
pub mod Meaning
pub mod Follows
pub mod OfDigits
pub mod Named
pub mod Cases
