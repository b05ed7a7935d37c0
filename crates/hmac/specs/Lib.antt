pub mod Hmac
pub mod HmacAnswer
pub mod Secrets
