mod Own
mod Read
