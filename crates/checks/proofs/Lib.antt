-- Laws of what is found in a content (Found), of a scheme's bytes (Schemes), and of answers (Laws).
mod Found
mod Schemes
pub mod Laws
