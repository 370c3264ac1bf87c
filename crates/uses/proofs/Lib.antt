mod Attached
mod Written
mod Alone
mod Refused
